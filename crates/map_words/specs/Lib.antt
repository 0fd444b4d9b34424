pub mod Places
pub mod TakeRule
pub mod Steps
pub mod Answers
pub mod Refused
