pub mod Accounts
pub mod Readings
