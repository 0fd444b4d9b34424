pub mod Shortening
mod Carriers
pub mod Moving
