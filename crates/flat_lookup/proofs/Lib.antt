pub mod Padding
pub mod Reading
pub mod Writing
pub mod Theorems
