pub mod FormFacts
pub mod Crowds
pub mod EntryFacts
mod FieldTests
mod Pairs
mod Index
pub mod Claims
