mod Begun
mod Comings
mod Explained
pub mod Laws
mod Parts
mod Results
