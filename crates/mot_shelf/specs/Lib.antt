pub mod Calls
pub mod Given
pub mod Gives
pub mod Inner
pub mod Reader
pub mod View
