pub mod Files
pub mod Refusals
