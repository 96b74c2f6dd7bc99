pub mod Later
pub mod Stamps
pub mod Histories
pub mod laws
