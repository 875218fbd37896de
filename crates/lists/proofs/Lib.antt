pub mod Inverse
pub mod ListLaws
