pub mod Chunks
pub mod Counts
pub mod Ends
pub mod Feeds
pub mod Lines
pub mod Opens
pub mod Turns
pub mod Writes
