pub mod Varints
pub mod Reading
pub mod Reach
pub mod Scan
pub mod Within
pub mod Joined
