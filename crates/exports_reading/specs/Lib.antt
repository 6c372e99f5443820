pub mod Payloads
pub mod Names
