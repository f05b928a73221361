pub mod Cut
pub mod Gather
pub mod Inner
pub mod Packet
pub mod Written
