pub mod Growth
pub mod Calls
