pub mod Commands
pub mod Performing
pub mod Told
pub mod Room
pub mod Stepping
pub mod Replies
