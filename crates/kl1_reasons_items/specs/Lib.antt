pub mod Places
pub mod Items
pub mod Tokens
