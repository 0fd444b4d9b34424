pub mod State
pub mod Text
pub mod Prefix
pub mod Answers
pub mod Meaning
pub mod Carrying
pub mod Replies
