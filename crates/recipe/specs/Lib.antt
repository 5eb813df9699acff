pub mod Limits
pub mod Recipe
pub mod Inner
pub mod Faults
pub mod Claims
pub mod Examples
