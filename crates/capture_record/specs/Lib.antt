pub mod Listed
pub mod Listing
