pub mod LeftText
pub mod Feeds
pub mod FrontFeeds
pub mod TokenLines
pub mod RefusedLines
pub mod Refusals
pub mod Explaining
pub mod PutLines
