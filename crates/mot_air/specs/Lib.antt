pub mod Commands
pub mod Directory
pub mod Inner
pub mod Playing
pub mod Telling
