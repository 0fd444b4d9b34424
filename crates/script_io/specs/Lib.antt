pub mod Says
pub mod Opens
pub mod Feeding
pub mod Turns
pub mod Status
