pub mod Pairs
pub mod Messages
pub mod Tails
pub mod Rooms
pub mod Changes
pub mod Shapes
pub mod Putting
pub mod Listing
mod Asked
mod LettingGo
