pub mod Reasons
pub mod Judged
pub mod Told
pub mod Refused
