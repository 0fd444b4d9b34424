pub mod Once
pub mod Steady
pub mod Bench
