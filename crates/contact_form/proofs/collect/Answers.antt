use native.Mathlib.Omega.{arith}
use Rattle.contact_table.proofs.Cuts.{slots-most, slot_whole}
use Rattle.contact_form.proofs.Index.{index-none, read-free, read-bad, read_taken, read-put}
use Rattle.contact_form.proofs.collect.Goals as goal
use Rattle.contact_form.proofs.collect.Goals.{then-s-ne0+else-k-ge-INDEX+else-at-k-ne0, else-s-ne0}

pub loop-i-init : goal.loop-i-init
loop-i-init c = index-none c.args.table.now c.args.ours.now c.args.at.now c.requires.1 c.requires.2

pub slot_at-s-requires : goal.slot_at-s-requires
slot_at-s-requires c = slot_whole c.args.table.now c.loop-i.i (omega (arith, c.requires.0))

pub returns-then-k-ge-INDEX-clause-broken : goal.returns-then-k-ge-INDEX-clause-broken
returns-then-k-ge-INDEX-clause-broken c e = read-bad c.args.table.now c.args.ours.now c.loop-i.at c.loop-i.i c.loop-i.invariant (omega (arith, c.requires.0)) c.slot_at-s.ensures.0 (omega arith) c.key_of-k.ensures c.if-k-ge-INDEX.true

pub returns-then-at-k-ne0-clause-broken : goal.returns-then-at-k-ne0-clause-broken
returns-then-at-k-ne0-clause-broken c e = read_taken c.args.table.now c.args.ours.now c.loop-i.at c.loop-i.i c.loop-i.invariant (omega (arith, c.requires.0)) c.slot_at-s.ensures.0 (omega arith) c.key_of-k.ensures c.if-k-ge-INDEX.false c.if-at-k-ne0.true

pub overflow_cast-at : goal.overflow_cast-at
overflow_cast-at c = omega (arith, c.requires.0, slots-most c.args.table.now)

pub loop-i-preserved : goal.loop-i-preserved
loop-i-preserved c =
    elim c.if-s-ne0.branch [
      | then-s-ne0+else-k-ge-INDEX+else-at-k-ne0 w ↦ rw w.at-is (read-put c.args.table.now c.args.ours.now c.loop-i.at c.loop-i.i c.loop-i.invariant (omega (arith, c.requires.0)) c.slot_at-s.ensures.0 (omega (arith, w.if-s-ne0.true)) w.key_of-k.ensures w.if-k-ge-INDEX.false w.if-at-k-ne0.false)
      | else-s-ne0 w ↦ rw w.at-is (read-free c.args.table.now c.args.ours.now c.loop-i.at c.loop-i.i c.loop-i.invariant (omega (arith, c.requires.0)) c.slot_at-s.ensures.0 (omega (arith, w.if-s-ne0.false)))
    ]
