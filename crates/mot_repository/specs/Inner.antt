-- What only private contracts and proofs need.
pub mod Bounds
pub mod Extents
pub mod Faults
pub mod Fold
pub mod Following
pub mod Kept
pub mod Prepared
pub mod Ready
pub mod Whole
