pub mod Places
pub mod SumLaws
pub mod Right
pub mod Exactly
pub mod Low
