pub mod EndLaws
mod Example
pub mod Values
mod Ways
