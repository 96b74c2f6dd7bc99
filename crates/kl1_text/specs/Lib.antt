pub mod BuiltIns
pub mod Reading
pub mod Words
