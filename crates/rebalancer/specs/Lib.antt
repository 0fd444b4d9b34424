pub mod Drives
pub mod Carrying
pub mod Rebuilding
pub mod Balancing
pub mod Choosing
