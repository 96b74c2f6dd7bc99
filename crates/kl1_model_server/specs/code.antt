-- Words of contracts of code; no promise speaks of them.
pub mod Streams
