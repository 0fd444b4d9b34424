pub mod Placing
pub mod Restarting
pub mod Standing
pub mod Worlds
pub mod Refusals
pub mod Runnings
