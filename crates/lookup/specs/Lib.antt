pub mod Value
pub mod Lookup
pub mod Inner
