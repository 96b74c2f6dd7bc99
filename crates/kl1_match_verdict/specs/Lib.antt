pub mod Rising
pub mod Outcomes
pub mod Choices
pub mod Candidates
