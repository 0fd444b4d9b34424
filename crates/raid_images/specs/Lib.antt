pub mod Choice
pub mod Names
pub mod Reading
pub mod Recovered
pub mod Saving
