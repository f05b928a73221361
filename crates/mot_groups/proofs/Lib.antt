pub mod Appended
pub mod Cut
pub mod Laws
pub mod Only
pub mod ReadBack
pub mod Rows
