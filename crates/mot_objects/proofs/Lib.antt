pub mod Laws
pub mod NextFree
pub mod Rows
pub mod Sound
pub mod Texts
