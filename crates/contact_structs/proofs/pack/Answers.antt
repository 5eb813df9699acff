-- `pack` meets its contract: each turn lays out one more contact.
use Rattle.std.proofs.Common.{◌≡◌, ℕ, ◌*◌, length, take, refl, sym, ap, ◌∙◌, arith, add-one, List}
use lib.Seq.{take-length}
use Rattle.contacts.specs.Table.{slot_size}
use Rattle.contact_slots.specs.Slots.{table_bytes}
use Rattle.contact_slots.specs.declared.Contact.{Contact}
use Rattle.contact_slots.proofs.Rows.{laid_to, laid_none, laid-all, laid_more, size-more}
use Rattle.contact_structs.proofs.pack.Goals as goal

pub loop-i-init : goal.loop-i-init
unfolding table_bytes
loop-i-init c = record { within = omega arith; laid = laid_none c.args.t.now c.args.room.now; size = refl }

pub loop-i-preserved : goal.loop-i-preserved
loop-i-preserved c =
    let t : List Contact = c.args.t.now in
    let v = c.loop-i.invariant in
    record {
      within = omega arith;
      laid = rw add-one (laid_more t c.args.room.now c.loop-i.i _ c.loop-i-test.true v.size c.lay.ensures.1 c.loop-i.room c.lay.new.room c.loop-i.auto.room v.laid c.lay.ensures.0);
      size = rw add-one (size-more t c.args.room.now c.loop-i.i _ c.loop-i-test.true v.size c.lay.ensures.1);
    }

pub returns : goal.returns
returns c =
    let t : List Contact = c.args.t.now in
    let v = c.loop-i.invariant in
    let e : c.loop-i.i ≡ length t = omega arith in (
      v.laid ∙ ap (λ (i : ℕ). laid_to i t c.args.room.now) e ∙ laid-all t c.args.room.now,
      ap (λ (u : List Contact). length (table_bytes u)) (sym (take-length t) ∙ ap (λ (i : ℕ). take i t) (sym e)) ∙ v.size ∙ ap (λ (i : ℕ). i * slot_size) e,
    )
