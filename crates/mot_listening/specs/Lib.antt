pub mod Ends
pub mod Entities
pub mod Lengths
pub mod Listening
pub mod Waits
