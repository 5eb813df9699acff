-- The limits and the layout of the record store, passed on.
pub use Rattle.record_slots.specs.Limits.{key_min, opening, key_at, value_at, slot_size}
