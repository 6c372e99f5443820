pub mod Offer
pub mod Why
