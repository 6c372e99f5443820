pub mod Refusals
pub mod RepeatLaws
pub mod ReplyPasses
