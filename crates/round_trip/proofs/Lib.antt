pub mod RoundTrip
pub mod Written
