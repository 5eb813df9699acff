-- `pack` lays the contacts out one by one: up to i they are laid out, and they are as many bytes as i slots.
use Rattle.std.proofs.Common.{◌≡◌, ◌-◌, ◌*◌, ◌≤◌, length, take}
use Rattle.contacts.specs.Table.{slot_size}
use Rattle.contact_slots.specs.Slots.{table_bytes}
use Rattle.contact_slots.proofs.Rows.{laid_to}
use Rattle.contact_structs.proofs.pack.Given as goal

abbrev pub invariant-loop-i : goal.invariant-loop-i
invariant-loop-i l = record {
  within : l.i ≤ length l.t;
  laid : l.room ≡ laid_to l.i l.t l.initial.room;
  size : length (table_bytes (take l.i l.t)) ≡ l.i * slot_size;
}
