-- What the code of a player keeps, for its own clauses and proofs.
pub mod Course
pub mod Difference
pub mod Entities
pub mod Newest
pub mod Next
pub mod Ready
