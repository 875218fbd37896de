pub mod Landing
pub mod StowLaws
