pub mod Numbers
pub mod Ranges
pub mod Faults
pub mod Found
pub mod Worlds
pub mod Restarts
pub mod Stops
