pub mod Best
pub mod Counting
pub mod Planning
pub mod Ranked
pub mod Rows
pub mod Tabled
