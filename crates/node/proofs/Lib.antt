mod Gates
pub mod Receiving
