pub mod Kept
pub mod Ends
pub mod Lines
pub mod Conversations
pub mod Connections
