pub mod Histories
pub mod Entries
