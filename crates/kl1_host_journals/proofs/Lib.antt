pub mod Resting
pub mod Opens
pub mod LinkedFiles
pub mod Noting
pub mod Chains
pub mod Adding
pub mod KeptFiles
pub mod Reading
