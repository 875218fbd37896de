pub mod Header
pub mod Delivery
pub mod Target
pub mod Stowing
