pub mod Parts
pub mod Whole
pub mod Arrivals
pub mod Steps
pub mod ReadBack
pub mod Starting
