pub mod Scans
pub mod Form
pub mod Steps
pub mod Hearing
pub mod Arriving
pub mod Starting
