pub mod Changed
pub mod Refused
pub mod Applied
