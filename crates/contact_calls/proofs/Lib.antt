pub mod Outcomes
pub mod Theorems
pub mod Doubts
pub mod Claims
