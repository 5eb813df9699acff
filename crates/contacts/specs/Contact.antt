-- What a reply gives of a contact, passed on.
unfoldable pub use Rattle.contact_table.specs.Contact.{entry_id, entry_address, entry_count, entry_addresses_to, entry_addresses}
