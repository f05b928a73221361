pub mod Exported
pub mod Filled
pub mod FilledBehind
pub mod Inspected
pub mod Played
pub mod Printed
mod Rows
