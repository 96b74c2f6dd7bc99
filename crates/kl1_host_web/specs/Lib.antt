pub mod Asking
pub mod Wishes
pub mod Telling
pub mod Beginning
pub mod Records
pub mod Serving
pub mod Writing
