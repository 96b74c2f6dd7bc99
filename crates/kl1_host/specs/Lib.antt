pub mod Asks
pub mod Browsers
pub mod Ends
pub mod Repairs
pub mod Setups
pub mod NextKeys
