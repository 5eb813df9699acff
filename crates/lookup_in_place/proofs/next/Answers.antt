-- `next`: what is said, then what is left. Assumes nothing.
use Rattle.lookup_in_place.proofs.Steps.{short-step, long-step}
use Rattle.lookup_in_place.specs.declared.Outcome.{Outcome}
use Rattle.flat_lookup.specs.FlatLookup.{lookup_in}
use Rattle.lookup.specs.Lookup.{next_of}
use mathlib.Core.Path.{ap}
use borrow.Author.Rules.{rules}
use Rattle.lookup_in_place.proofs.give.Reads as give-reads
use Rattle.lookup_in_place.proofs.keep_next.Reads as keep-next-reads
use Rattle.lookup_in_place.proofs.next_answer.Reads as next-answer-reads
use Rattle.lookup_in_place.proofs.next.Goals as goal

pub returns-then-m-lt-SIZE : goal.returns-then-m-lt-SIZE
returns-then-m-lt-SIZE c = short-step c.args.m.now (next_of (lookup_in c.args.m.now)) _ c.if-m-lt-SIZE.true c.give.ensures

pub keep_next-requires : goal.keep_next-requires
keep_next-requires c = (c.if-m-lt-SIZE.false, ap (λ (x : Outcome). x.answer) c.next_answer-said.ensures)

pub returns : goal.returns
returns c = long-step c.args.m.now _ (next_of (lookup_in c.args.m.now)) _ c.if-m-lt-SIZE.false (c.next_answer-said.ensures, c.keep_next.ensures)
