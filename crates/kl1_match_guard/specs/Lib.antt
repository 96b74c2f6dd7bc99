pub mod Waiting
pub mod Forms
pub mod Parts
pub mod Pendings
pub mod Evaluations
pub mod Outcomes
pub mod Alike
pub mod Tests
