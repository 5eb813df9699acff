pub mod Calls
pub mod Claims
pub mod Inner
