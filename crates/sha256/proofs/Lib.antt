pub mod Laws
pub mod Claims
mod Words
mod Schedule
mod Padding
