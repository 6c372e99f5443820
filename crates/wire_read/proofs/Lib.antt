pub mod Tests
pub mod Laws
pub mod Parts
mod Ways
