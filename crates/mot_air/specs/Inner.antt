pub mod Beside
pub mod Fed
pub mod StartError
