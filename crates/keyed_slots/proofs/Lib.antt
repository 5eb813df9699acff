pub mod Laying
pub mod Finding
pub mod Ordering
pub mod Writing
