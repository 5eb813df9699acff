pub mod Kinds
pub mod Message
pub mod View
pub mod Claims
pub mod Inner
