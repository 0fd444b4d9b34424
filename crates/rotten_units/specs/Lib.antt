pub mod Faults
pub mod Loaded
pub mod Rows
pub mod Written
