pub mod Sizes
pub mod Writable
pub mod Claims
pub mod Inner
