pub mod Limits
pub mod Store
pub mod Inner
