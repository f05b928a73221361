pub mod Known
pub mod Rows
pub mod Said
pub mod Suffixes
pub mod Typed
