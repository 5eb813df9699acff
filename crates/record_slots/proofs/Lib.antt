pub mod Laying
pub mod Finding
pub mod Keyed
