pub mod Choices
pub mod Replies
