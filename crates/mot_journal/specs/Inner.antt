-- What only private contracts and proofs need.
pub mod Format
pub mod Reading
pub mod Steps
pub mod Unread
