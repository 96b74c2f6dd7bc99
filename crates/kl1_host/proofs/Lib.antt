pub mod Cutting
pub mod Doors
pub mod Browsing
pub mod NextKeys
