pub mod Runs
pub mod Steps
