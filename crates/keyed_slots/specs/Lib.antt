pub mod Slots
pub mod Inner
