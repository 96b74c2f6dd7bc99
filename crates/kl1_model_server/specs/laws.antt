-- What holds of the definitions: statements, which contracts of functions with empty bodies name.
pub mod InputLaws
pub mod HistoryLaws
pub mod ReplayLaws
pub mod TextLaws
