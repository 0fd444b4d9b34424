pub mod Streaming
pub mod Stopping
pub mod Enduring
pub mod Replying
pub mod Saying
pub mod Sessions
pub mod Outcomes
pub mod Turns
