-- `end`: the twenty and the count, of the marks that were handed in. Assumes nothing.
use Rattle.lookup.proofs.Steps.{end-cut, end_whole}
use mathlib.Core.Path.{sym, ap, ◌∙◌}
use Rattle.flat_lookup.specs.FlatLookup.{lookup_in}
use Rattle.lookup_in_place.specs.InPlace.{outcome_of}
use borrow.Author.Rules.{rules}
use Rattle.flat_lookup.proofs.turned_in.Reads as turned-in-reads
use Rattle.lookup_marks.proofs.sent.Reads as sent-reads
use Rattle.lookup_marks.proofs.twenty.Reads as twenty-reads
use Rattle.lookup_in_place.proofs.end.Goals as goal

pub returns-then-turned_in : goal.returns-then-turned_in
returns-then-turned_in c = ap outcome_of (end-cut (lookup_in c.args.m.now) _ _ _ c.requires.1 c.twenty-found.ensures c.sent-sent.ensures (sym c.turned_in.ensures ∙ c.if-turned_in.true))

pub returns : goal.returns
returns c = ap outcome_of (end_whole (lookup_in c.args.m.now) _ _ _ c.requires.1 c.twenty-found.ensures c.sent-sent.ensures (sym c.turned_in.ensures ∙ c.if-turned_in.false))
