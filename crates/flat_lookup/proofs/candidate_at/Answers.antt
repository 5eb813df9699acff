-- `candidate_at`: nobody past the ranks, else read from where it stands. Assumes nothing.
use mathlib.Core.Path.{sym, ap, ◌∙◌}
use Rattle.flat_lookup.specs.FlatLookup.{candidate_in}
use Rattle.flat_lookup.proofs.Reading.{candidate-is, candidate-none}
use borrow.Author.Rules.{rules}
use Rattle.flat_lookup.proofs.candidate_at.Goals as goal

pub returns-then-rank-ge-ROOM : goal.returns-then-rank-ge-ROOM
returns-then-rank-ge-ROOM c = c.no_candidate.ensures ∙ candidate-none c.args.bytes.now c.args.rank c.if-rank-ge-ROOM.true

pub returns : goal.returns
returns c = c.candidate_in.ensures ∙ ap candidate_in c.rest.ensures ∙ sym (candidate-is c.args.bytes.now c.args.rank c.if-rank-ge-ROOM.false)
