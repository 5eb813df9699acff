pub mod Laws
pub mod Rows
pub mod Back
pub mod InStep
