pub mod Calls
pub mod Lookups
pub mod Messages
pub mod Recipes
pub mod Hosted
pub mod Agree
