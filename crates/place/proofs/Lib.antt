pub mod Places
pub mod Bits
pub mod Distance
pub mod Buckets
pub mod Claims
