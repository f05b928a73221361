pub mod Inner
pub mod Syncing
