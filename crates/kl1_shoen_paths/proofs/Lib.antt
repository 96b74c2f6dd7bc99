pub mod Putting
pub mod Trails
pub mod Numbered
pub mod Paths
pub mod Charges
pub mod Flags
pub mod Linking
pub mod Below
