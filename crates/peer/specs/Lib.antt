pub mod Addresses
pub mod Peers
