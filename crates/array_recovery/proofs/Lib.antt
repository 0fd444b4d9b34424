pub mod Patched
pub mod Replaying
pub mod Loading
pub mod Marking
pub mod Attesting
mod Seating
mod Fading
mod Rebuilding
pub mod Reopening
pub mod Outlasting
