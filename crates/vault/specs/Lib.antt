pub mod Entries
pub mod Coding
pub mod Images
pub mod Moments
pub mod Replay
pub mod Memory
pub mod Marks
pub mod Attested
