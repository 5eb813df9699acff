pub mod Shown
pub mod Sorting
pub mod TwentyNearest
mod Pairs
mod Shifts
pub mod Claims
