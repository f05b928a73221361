pub mod Counters
pub mod Look
pub mod EventClass
pub mod Text
