pub mod Images
pub mod Held
