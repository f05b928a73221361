pub mod Geometry
pub mod PacketLength
pub mod Reading
pub mod Refusal
