pub mod Laws
pub mod Told
mod Ways
