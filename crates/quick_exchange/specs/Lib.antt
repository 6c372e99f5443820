pub mod Exchange
pub mod Readable
