pub mod Shown
pub mod Promised
