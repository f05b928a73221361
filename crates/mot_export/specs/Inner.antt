pub mod Filled
pub mod Inspected
