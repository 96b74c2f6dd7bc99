pub mod Growing
pub mod Prefixes
pub mod Chains
pub mod Adding
