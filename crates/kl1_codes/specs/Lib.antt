pub mod Numbered
pub mod Finding
pub mod Spans
pub mod Indexes
pub mod Shelves
