pub mod Sums
pub mod SumValues
pub mod laws
