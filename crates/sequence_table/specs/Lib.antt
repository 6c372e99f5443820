pub mod Outcome
pub mod Sending
pub mod Counted
pub mod Table
