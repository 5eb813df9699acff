pub mod Stream
pub mod Inner
