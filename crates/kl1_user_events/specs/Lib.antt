pub mod Views
pub mod Viewing
