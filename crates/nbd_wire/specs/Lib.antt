pub mod Prefix
pub mod Requests
pub mod Replies
pub mod Options
