pub mod Gathering
pub mod Hearing
pub mod Meaning
pub mod Occurrences
pub mod Views
pub mod Vectors
pub mod Claims
pub mod Keys
