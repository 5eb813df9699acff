-- `unpack` meets its contract: each turn takes one more contact.
use Rattle.std.proofs.Common.{◌≡◌, ℕ, length, ap, ◌∙◌, arith, add-one}
use Rattle.contact_slots.proofs.Rows.{taken_to, taken_none, taken-all, taken_more}
use Rattle.contact_structs.specs.Structs.{contacts_after}
use Rattle.contact_structs.proofs.unpack.Goals as goal

pub loop-i-init : goal.loop-i-init
loop-i-init c = record { within = omega arith; taken = taken_none c.args.t.now c.args.room.now }

pub loop-i-preserved : goal.loop-i-preserved
loop-i-preserved c = record {
  within = omega arith;
  taken = rw add-one (taken_more c.args.t.now c.args.room.now c.loop-i.i _ c.pick.result c.loop-i.t c.loop-i-test.true c.loop-i.invariant.taken c.pick.ensures);
}

pub returns : goal.returns
unfolding contacts_after
returns c =
    let e : c.loop-i.i ≡ length c.args.t.now = omega arith in
    c.loop-i.invariant.taken ∙ ap (λ (i : ℕ). taken_to i c.args.t.now c.args.room.now) e ∙ taken-all c.args.t.now c.args.room.now
