pub mod Alone
pub mod Asked
pub mod InTurn
pub mod Laws
pub mod Lines
pub mod Rows
pub mod Unasked
pub mod Values
