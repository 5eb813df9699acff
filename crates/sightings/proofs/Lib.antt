pub mod Moves
pub mod Dropping
pub mod Doubting
pub mod Calls
