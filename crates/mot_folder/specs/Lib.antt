pub mod Guard
pub mod Inner
pub mod Known
pub mod Listed
pub mod Log
pub mod Looked
pub mod Taken
