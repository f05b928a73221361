pub mod Asked
pub mod Asking
pub mod Going
pub mod Laws
