pub mod Digits
pub mod WrongKeys
