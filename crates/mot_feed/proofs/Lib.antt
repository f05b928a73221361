pub mod Ends
pub mod Fed
pub mod Grown
pub mod Hearing
pub mod Laws
pub mod Listening
pub mod OnAir
mod Rows
pub mod Sent
