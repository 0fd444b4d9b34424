pub mod Places
pub mod ClaimRule
pub mod Sight
pub mod Steps
pub mod Refused
pub mod Idle
