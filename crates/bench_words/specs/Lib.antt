pub mod Words
pub mod Hex
pub mod Number
pub mod Say
pub mod Integrity
