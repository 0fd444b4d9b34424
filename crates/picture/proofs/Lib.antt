pub mod Sites
pub mod Noting
