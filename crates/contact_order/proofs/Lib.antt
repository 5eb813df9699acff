pub mod Slots
pub mod Tests
pub mod FirstWord
pub mod Closing
