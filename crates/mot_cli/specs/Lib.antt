pub mod Command
pub mod Given
pub mod Inner
pub mod Options
pub mod Parts
pub mod Task
