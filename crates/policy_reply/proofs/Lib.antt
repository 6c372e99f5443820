pub mod ReplyLaws
pub mod ReplyWays
pub mod Told
