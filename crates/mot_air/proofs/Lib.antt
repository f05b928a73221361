pub mod Behind
pub mod Endings
pub mod Kept
pub mod Played
pub mod Retold
