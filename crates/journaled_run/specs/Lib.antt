pub mod Showing
pub mod Runs
