pub mod Interface
pub mod RoundTrip
