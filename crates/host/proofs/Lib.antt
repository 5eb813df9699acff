pub mod Handing
pub mod Receiving
pub mod Stepping
