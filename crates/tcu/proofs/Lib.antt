pub mod InterfaceLaws
pub mod RoundTrip
