pub mod Table
pub mod Form
pub mod Near
pub mod Contact
pub mod Claims
pub mod Inner
