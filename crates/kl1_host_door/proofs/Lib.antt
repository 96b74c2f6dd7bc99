pub mod Names
pub mod BookPlaces
pub mod Copies
pub mod Texts
