pub mod Place
pub mod Claims
