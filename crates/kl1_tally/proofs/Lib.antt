pub mod Sums
pub mod Numbers
pub mod Steps
pub mod Making
pub mod Raising
pub mod Adding
pub mod AddingUp
