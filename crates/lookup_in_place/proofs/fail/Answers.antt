-- `fail`: the mark, then over or not. Assumes nothing.
use Rattle.lookup_in_place.proofs.Steps.{count_kept, still-long}
use Rattle.lookup_in_place.proofs.Whole.{tidied-over}
use Rattle.lookup_in_place.specs.InPlace.{outcome_of}
use Rattle.lookup.specs.Value.{Lookup}
use Rattle.lookup.specs.Lookup.{settled}
use mathlib.Core.Path.{ap, ◌∙◌}
use borrow.Author.Rules.{rules}
use Rattle.lookup_in_place.proofs.finish.Reads as finish-reads
use Rattle.lookup_in_place.proofs.set_mark.Reads as set-mark-reads
use Rattle.lookup_in_place.proofs.fail.Goals as goal

pub finish-requires : goal.finish-requires
finish-requires c = (still-long _ _ _ c.set_mark.ensures c.requires.0, count_kept _ _ _ c.set_mark.ensures c.requires.2)

pub returns : goal.returns
returns c = (c.finish.ensures.0 ∙ ap (λ (x : Lookup). outcome_of (settled x)) c.set_mark.ensures.holds, tidied-over _ c.args.m.now _ _ c.requires.0 c.set_mark.ensures c.finish.ensures.1)
