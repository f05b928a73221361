-- What only private contracts and proofs need.
pub mod Steps
pub mod Views
