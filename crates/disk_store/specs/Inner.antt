-- What only private contracts, and the proof that each disk keeps the model, need.
pub mod Log
pub mod MemorySound
pub mod Noting
pub mod RamSound
