pub mod Sums
pub mod Credits
pub mod Sound
pub mod Wiring
