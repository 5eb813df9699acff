pub mod Frames
pub mod World
pub mod Plain
pub mod Claims
