pub mod Fields
pub mod Places
pub mod Writing
pub mod Claims
pub mod Examples
