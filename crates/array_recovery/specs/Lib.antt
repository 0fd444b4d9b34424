pub mod Found
pub mod Reopened
