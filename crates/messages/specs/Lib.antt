pub mod Send
pub mod Reply
pub mod Ready
