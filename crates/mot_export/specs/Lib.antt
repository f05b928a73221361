pub mod Exporting
pub mod Filling
pub mod Inner
pub mod Inspecting
pub mod Json
