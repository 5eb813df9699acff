pub mod Rooms
pub mod Lists
pub mod Meaning
pub mod Tidy
pub mod Slot
