pub mod Held
pub mod Codes
pub mod Writes
pub mod Runs
pub mod Carried
pub mod Replayed
pub mod LastWrites
