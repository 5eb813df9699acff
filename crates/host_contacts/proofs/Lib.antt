pub mod Hosting
pub mod Claims
