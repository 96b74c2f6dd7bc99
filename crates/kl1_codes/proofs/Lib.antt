pub mod Rows
pub mod Answers
pub mod Runs
pub mod Steps
pub mod Parts
pub mod Names
pub mod Shelving
pub mod Placing
