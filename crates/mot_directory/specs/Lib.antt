pub mod Directory
pub mod Entries
pub mod Header
pub mod Inner
pub mod Parameter
