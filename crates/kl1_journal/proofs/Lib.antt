pub mod Changing
pub mod Keeps
pub mod NameLists
