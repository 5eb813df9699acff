pub mod ReadBack
pub mod Giving
