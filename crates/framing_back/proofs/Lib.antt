pub mod Prefix
pub mod Varints
pub mod Back
