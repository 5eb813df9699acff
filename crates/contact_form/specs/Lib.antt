pub mod Form
pub mod Claims
pub mod Inner
