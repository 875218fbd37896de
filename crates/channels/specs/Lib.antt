pub mod Aims
pub mod Endpoints
pub mod Phrases
