pub mod Batching
pub mod Arrays
pub mod Opening
pub mod Settling
pub mod Planning
pub mod Changing
pub mod Running
