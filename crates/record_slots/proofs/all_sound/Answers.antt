use native.Mathlib.Omega.{arith}
use borrow.Author.Rules.{rules}
use Prim.Native.Nat.{ℕ, ◌-◌, ◌≤◌}
use mathlib.Core.Path.{◌≡◌, sym, ◌∙◌, subst}
use mathlib.Core.Bool.{true}
use borrow.Author.Tests.{not-true, not-false}
use Rattle.octets.specs.Search.{all}
use Rattle.octets.proofs.Searching.{all-zero, all_more, all-fails}
use Rattle.record_slots.specs.Slots.{slots_of}
use Rattle.record_slots.specs.Inner.{sound}
use Rattle.record_slots.proofs.all_sound.Goals as goal

pub loop-i-init : goal.loop-i-init
loop-i-init c = (omega arith, all-zero (sound c.args.store.now))

pub sound_at-requires : goal.sound_at-requires
sound_at-requires c = omega (arith, c.slots-n.ensures)

pub returns-then-not-sound_at : goal.returns-then-not-sound_at
returns-then-not-sound_at c = sym (all-fails (sound c.args.store.now) (slots_of c.args.store.now) c.loop-i.i (omega (arith, c.slots-n.ensures)) (sym c.sound_at.ensures ∙ c.if-not-sound_at.true))

pub loop-i-preserved : goal.loop-i-preserved
loop-i-preserved c = (omega arith, all_more (sound c.args.store.now) c.loop-i.i c.loop-i.invariant.1 (sym c.sound_at.ensures ∙ c.if-not-sound_at.false))

pub returns : goal.returns
returns c = let e : c.loop-i.i ≡ (slots_of c.args.store.now) = omega (arith, c.slots-n.ensures) in sym (subst (λ (n : ℕ). all n (sound c.args.store.now) ≡ true) e c.loop-i.invariant.1)
