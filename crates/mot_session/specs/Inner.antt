pub mod Anyhow
pub mod Writes
