pub mod Entries
pub mod Moves
