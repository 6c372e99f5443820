pub mod Bits
pub mod Told
mod Ways
