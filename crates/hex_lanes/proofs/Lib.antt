pub mod Lanes
pub mod Values
pub mod Spelled
pub mod Done
pub mod Encoded
