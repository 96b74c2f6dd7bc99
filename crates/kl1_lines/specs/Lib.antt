pub mod Places
pub mod Records
pub mod Devices
pub mod Replies
pub mod Runs
