pub mod MessageLaws
pub mod SendLaws
pub mod ReplyLaws
