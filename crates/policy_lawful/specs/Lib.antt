pub mod Difference
pub mod Lawful
