-- The form of the contact table, passed on.
pub use Rattle.contact_form.specs.Form.{buckets}
unfoldable pub use Rattle.contact_form.specs.Form.{rank, slot_bucket, address_fits, fields_fit, tied, just_below, apart, leads, good, good_or_free, in_form}
