pub mod Seating
pub mod Worlds
