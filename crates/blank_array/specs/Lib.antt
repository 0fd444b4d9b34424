pub mod Blank
pub mod Files
