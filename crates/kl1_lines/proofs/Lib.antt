pub mod Cuts
pub mod Splits
pub mod Fuel
pub mod WordFuel
pub mod DeviceLaws
pub mod Digits
pub mod Underway
pub mod RunLaws
