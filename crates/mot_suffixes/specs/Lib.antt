pub mod Images
pub mod Inner
pub mod Shown
pub mod Types
