-- `unpack` takes the contacts one by one: up to i they are the room's.
use Rattle.std.proofs.Common.{◌≡◌, ◌-◌, ◌≤◌, length}
use Rattle.contact_slots.proofs.Rows.{taken_to}
use Rattle.contact_structs.proofs.unpack.Given as goal

abbrev pub invariant-loop-i : goal.invariant-loop-i
invariant-loop-i l = record {
  within : l.i ≤ length l.initial.t;
  taken : l.t ≡ taken_to l.i l.initial.t l.room;
}
