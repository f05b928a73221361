pub mod Inner
pub mod LineFiles
pub mod LineReads
pub mod Spool
pub mod Spooling
