pub mod Tracked
pub mod Paths
pub mod Below
