pub mod Collected
pub mod Counted
pub mod Counts
pub mod DirectoryNext
pub mod Early
pub mod EarlyBodies
pub mod Ends
pub mod Heard
pub mod Laws
pub mod ListeningRows
pub mod OfTurn
pub mod Renews
pub mod Rest
mod Rows
pub mod Starts
pub mod TuneIn
pub mod Whole
