pub mod Writing
pub mod Bringing
pub mod Marking
