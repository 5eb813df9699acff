pub mod Digits
pub mod Putting
pub mod Shortest
pub mod RoundTrip
