pub mod Digits
pub mod TextsOfLines
pub mod SumsOff
pub mod SumTexts
pub mod Rightness
