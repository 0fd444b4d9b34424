pub mod Holding
pub mod Loops
pub mod Over
pub mod Pieces
pub mod Reading
pub mod Showing
pub mod Writing
pub mod Calling
