use native.Mathlib.Omega.{arith}
use mathlib.Core.Path.{◌≡◌, refl, sym, subst}
use mathlib.Core.Bool.{true}
use Prim.Native.Nat.{ℕ}
use Rattle.octets.specs.Search.{all}
use Rattle.octets.proofs.Searching.{all-zero, all_more, all-fails}
use Rattle.keyed_slots.specs.Slots.{slots_of, alone, keys_apart}
use Rattle.keyed_slots.proofs.Ordering.{ordered}
use Rattle.keyed_slots.proofs.keys_apart.Goals as goal

pub loop-i-init : goal.loop-i-init
loop-i-init c = (omega arith, all-zero (alone c.args.size c.args.store.now), ordered _ _ _ refl)

pub slice_bounds-settle-end : goal.slice_bounds-settle-end
slice_bounds-settle-end c = sym c.loop-i.invariant.2.size

pub settle-held-requires : goal.settle-held-requires
settle-held-requires c = (omega (arith, c.slots-n.ensures), c.loop-i.invariant.2)

pub returns-then-held-gt-MOST_RECORDS : goal.returns-then-held-gt-MOST_RECORDS
unfolding keys_apart
returns-then-held-gt-MOST_RECORDS c = sym (all-fails (alone c.args.size c.args.store.now) (slots_of c.args.size c.args.store.now) c.loop-i.i (omega (arith, c.slots-n.ensures)) (c.settle-held.ensures.unfit (omega arith)))

pub loop-i-preserved : goal.loop-i-preserved
loop-i-preserved c = (omega arith, all_more (alone c.args.size c.args.store.now) c.loop-i.i c.loop-i.invariant.1 (c.settle-held.ensures.fit (omega arith)).0, (c.settle-held.ensures.fit (omega arith)).1)

pub returns : goal.returns
unfolding keys_apart
returns c = let e : c.loop-i.i ≡ slots_of c.args.size c.args.store.now = omega (arith, c.slots-n.ensures) in sym (subst (λ (n : ℕ). all n (alone c.args.size c.args.store.now) ≡ true) e c.loop-i.invariant.1)
