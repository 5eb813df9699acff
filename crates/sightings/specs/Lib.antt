pub mod Order
pub mod Sightings
