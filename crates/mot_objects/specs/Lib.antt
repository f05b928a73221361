pub mod Carousel
pub mod Ids
pub mod Laws
pub mod Name
pub mod Stands
