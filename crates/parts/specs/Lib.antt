pub mod Parts
pub mod Promises
