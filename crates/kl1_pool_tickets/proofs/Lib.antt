pub mod Moves
pub mod Apart
pub mod Counting
pub mod NewBooks
pub mod Zeros
pub mod Tickets
pub mod AddingUp
