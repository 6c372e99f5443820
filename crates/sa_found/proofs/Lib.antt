mod Numbered
mod Apart
pub mod FoundLaws
