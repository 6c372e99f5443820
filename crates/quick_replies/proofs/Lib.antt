mod OneLaws
mod TwoLaws
pub mod ReplyLaws
