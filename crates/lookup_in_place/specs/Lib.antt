pub mod InPlace
pub mod Inner
