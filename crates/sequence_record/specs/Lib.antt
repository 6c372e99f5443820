pub mod Verdict
pub mod Receive
