pub mod Box
pub mod Lookups
pub mod Demands
pub mod Agree
