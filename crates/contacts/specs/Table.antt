-- The slots of the contact table, passed on.
pub use Rattle.contact_table.specs.Table.{slot_size}
unfoldable pub use Rattle.contact_table.specs.Table.{slots_of, slot, put_slot, mark, used, doubt, doubtful, id_size, address_count, address_size, place, id, address, addresses_to, addresses}
