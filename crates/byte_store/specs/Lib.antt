pub mod Flat
pub mod Changes
pub mod Lasting
