mod Ways
pub mod Laws
