pub mod Octets
pub mod Search
pub mod Claims
