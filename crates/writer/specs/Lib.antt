pub mod Writer
pub mod Inner
