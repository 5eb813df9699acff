pub mod History
pub mod Claims
pub mod Agree
pub mod Fakes
