pub mod Got
pub mod Shown
