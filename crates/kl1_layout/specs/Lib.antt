pub mod Written
pub mod Layouts
pub mod Pieces
pub mod Verdicts
