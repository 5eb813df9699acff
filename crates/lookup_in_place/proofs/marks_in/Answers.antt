use Rattle.lookup_in_place.proofs.Parts.{all_there, mark-filled}
use Rattle.flat_lookup.specs.FlatLookup.{lookup_in}
use Rattle.octets.proofs.Finding.{Mapping, map-all}
use Rattle.lookup_candidates.specs.Candidates.{mark_of}
use native.Mathlib.Omega.{arith}
use lib.ListN.{length-replicate}
use mathlib.Core.Path.{refl, sym, ◌∙◌}
use Prim.Native.Nat.{ℕ, ◌-◌}
use borrow.Author.Rules.{rules}
use Rattle.lookup_in_place.proofs.mark_at.Reads as mark-at-reads
use Rattle.lookup_in_place.proofs.marks_in.Goals as goal

pub loop-i-init : goal.loop-i-init
loop-i-init c = record { within = omega arith; long = length-replicate {A = ℕ} 256 0 ∙ sym (all_there c.args.m.now); done = refl }

pub mark_at-v-requires : goal.mark_at-v-requires
mark_at-v-requires c = (c.requires, omega arith)

pub loop-i-preserved : goal.loop-i-preserved
loop-i-preserved c = mark-filled c.args.m.now _ _ _ c.loop-i-test.true c.mark_at-v.ensures c.loop-i.invariant

pub returns : goal.returns
returns c = map-all mark_of _ _ _ c.loop-i.invariant (omega (arith, all_there c.args.m.now, c.loop-i-test.false))
