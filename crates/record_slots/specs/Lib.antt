pub mod Limits
pub mod Slots
pub mod Inner
