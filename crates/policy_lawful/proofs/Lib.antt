pub mod LawfulWays
pub mod Told
