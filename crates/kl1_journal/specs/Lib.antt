pub mod Changes
pub mod Keeping
