pub mod Cases
pub mod Refusals
pub mod Doing
pub mod Keeping
pub mod Giving
