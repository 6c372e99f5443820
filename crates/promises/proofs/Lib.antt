pub mod Payloads
pub mod Reply
pub mod Sets
