pub mod Forms
pub mod Opening
pub mod Bounds
