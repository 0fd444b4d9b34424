pub mod Unique
pub mod Writing
pub mod Reading
