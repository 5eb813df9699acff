pub mod Entries
pub mod Counting
pub mod Whole
