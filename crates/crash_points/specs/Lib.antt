pub mod Intents
pub mod Lists
pub mod Stops
