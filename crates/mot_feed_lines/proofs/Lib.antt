pub mod Between
pub mod Commands
pub mod Requests
pub mod Taken
