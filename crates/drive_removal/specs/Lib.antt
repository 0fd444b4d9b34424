pub mod Removed
pub mod Shortened
