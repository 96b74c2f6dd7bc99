pub mod Ready
pub mod SettledStays
pub mod Plans
pub mod Words
