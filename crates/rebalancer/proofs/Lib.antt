pub mod Pairs
pub mod Squares
pub mod Targets
