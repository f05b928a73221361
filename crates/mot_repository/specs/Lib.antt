pub mod Answers
pub mod Copy
pub mod Inner
pub mod OnDisk
pub mod Opening
pub mod Outcome
pub mod Records
pub mod Repository
