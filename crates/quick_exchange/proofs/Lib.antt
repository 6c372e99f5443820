pub mod MessageShapes
pub mod MessageLaws
mod OfferLaws
pub mod TakenLaws
pub mod Fresh
pub mod Moves
pub mod Safety
pub mod Liveness
pub mod Example
pub mod Written
