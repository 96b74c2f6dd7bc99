pub mod Histories
pub mod Counts
pub mod Totals
pub mod Parts
pub mod Laws
