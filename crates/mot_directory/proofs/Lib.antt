pub mod Appended
pub mod Beside
pub mod Described
pub mod Fits
pub mod Laws
pub mod ReadBack
pub mod Rows
pub mod Replaced
