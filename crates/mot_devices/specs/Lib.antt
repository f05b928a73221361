pub mod Beside
pub mod Inner
pub mod Looking
pub mod Mounts
pub mod Signatures
pub mod Tables
pub mod Uses
