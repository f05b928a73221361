pub mod Command
pub mod Copied
pub mod Copying
pub mod Inner
