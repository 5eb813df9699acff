pub mod Same
pub mod Own
pub mod Theorems
