pub mod Table
pub mod Contact
