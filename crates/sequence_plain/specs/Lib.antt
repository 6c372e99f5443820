pub mod Plain
pub mod Engines
