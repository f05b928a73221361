pub mod Images
pub mod Knowing
pub mod Listing
pub mod Names
pub mod Notes
pub mod Reading
pub mod Reasons
