pub mod Sizes
pub mod Largest
pub mod Pieces
