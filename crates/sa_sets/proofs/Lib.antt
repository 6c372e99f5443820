pub mod Laws
pub mod Places
mod Ways
