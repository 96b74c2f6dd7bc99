pub mod Accounts
pub mod Alone
pub mod Scripts
pub mod Replays
pub mod Files
pub mod Steps
pub mod Names
