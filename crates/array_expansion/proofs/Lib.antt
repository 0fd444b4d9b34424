pub mod Loads
pub mod Spreading
pub mod Falling
pub mod Growing
pub mod Kept
