pub mod Lines
pub mod ShortLines
pub mod Starts
pub mod Runs
pub mod Reductions
pub mod Rooms
