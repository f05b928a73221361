pub mod Asking
pub mod Changing
pub mod Commands
pub mod Health
pub mod Inner
pub mod Json
pub mod Report
pub mod Serving
