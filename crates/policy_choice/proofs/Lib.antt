pub mod Laws
pub mod ChoiceLaws
mod ChoiceWays
pub mod Told
