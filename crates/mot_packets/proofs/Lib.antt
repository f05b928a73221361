pub mod Gathering
pub mod HeaderWord
pub mod Laws
pub mod OfGroup
pub mod Only
pub mod ReadBack
pub mod Rows
