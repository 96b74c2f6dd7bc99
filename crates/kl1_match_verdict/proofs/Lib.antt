pub mod TwoTerms
pub mod EachAlike
pub mod Rising
pub mod Judging
pub mod Choosing
pub mod Candidates
pub mod Least
