pub mod Added
pub mod Grown
