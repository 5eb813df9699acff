pub mod Lookups
pub mod Inner
