pub mod Digits
pub mod BuiltInLaws
pub mod Words
