pub mod Contacts
pub mod Claims
pub mod Inner
