pub mod Synced
pub mod Written
