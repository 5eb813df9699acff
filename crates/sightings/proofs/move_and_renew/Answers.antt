-- `sightings::move_and_renew` meets its contract. Assumes nothing.
use mathlib.Core.Path.{ap, sym, ◌∙◌, subst}
use Prim.Native.Nat.{ℕ, ◌<◌}
use Rattle.contacts.specs.Table.{slots_of}
use Rattle.sightings.proofs.Moves.{move-slots, renew-none, renew-some}
use Rattle.sightings.proofs.move_and_renew.Goals as goal

pub returns-then-p-eq0 : goal.returns-then-p-eq0
returns-then-p-eq0 c = renew-none c.args.table.now c.args.ours.now c.args.i c.requires c.args.p _ c.if-p-eq0.true c.move_to_tail.ensures

pub put_addresses-requires : goal.put_addresses-requires
put_addresses-requires c = subst (λ (n : ℕ). c.args.i < n) (sym (ap slots_of c.move_to_tail.ensures ∙ move-slots c.args.table.now c.args.ours.now c.args.i c.requires)) c.requires

pub returns : goal.returns
returns c = renew-some c.args.table.now c.args.ours.now c.args.i c.requires c.args.p _ _ c.if-p-eq0.false c.move_to_tail.ensures c.put_addresses.ensures
