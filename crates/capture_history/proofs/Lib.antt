mod Packets
pub mod Records
pub mod Runs
