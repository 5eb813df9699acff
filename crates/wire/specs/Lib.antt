pub mod Wire
pub mod Items
pub mod Inner
