pub mod Export
pub mod Fields
pub mod Inner
pub mod Line
pub mod Lines
pub mod Listing
pub mod Text
pub mod Verb
