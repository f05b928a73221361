pub mod Laws
mod OnlyReads
mod Steps
mod Told
