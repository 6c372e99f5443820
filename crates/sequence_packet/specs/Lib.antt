pub mod Packet
pub mod Packets
