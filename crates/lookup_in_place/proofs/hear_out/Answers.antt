-- `hear_out`: heard, then over or not. Assumes nothing.
use Rattle.lookup_in_place.proofs.Whole.{tidied-over}
use Rattle.lookup_in_place.specs.InPlace.{outcome_of}
use Rattle.lookup.specs.Value.{Lookup}
use Rattle.lookup.specs.Lookup.{settled}
use mathlib.Core.Path.{ap, ◌∙◌}
use borrow.Author.Rules.{rules}
use Rattle.lookup_in_place.proofs.finish.Reads as finish-reads
use Rattle.lookup_in_place.proofs.hear_from.Reads as hear-from-reads
use Rattle.lookup_in_place.proofs.hear_out.Goals as goal

pub returns : goal.returns
returns c = (c.finish.ensures.0 ∙ ap (λ (x : Lookup). outcome_of (settled x)) c.hear_from.ensures.0.holds, tidied-over _ c.args.m.now _ _ c.requires.0 c.hear_from.ensures.0 c.finish.ensures.1)
