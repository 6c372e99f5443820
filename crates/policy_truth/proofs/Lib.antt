mod Wishes
pub mod Passing
mod ByKind
mod Surplus
mod Conditions
pub mod TruthLaws
