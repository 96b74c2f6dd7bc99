pub mod Seated
pub mod Steps
pub mod Runs
pub mod Makes
