pub mod Blocks
pub mod Stores
pub mod Faults
