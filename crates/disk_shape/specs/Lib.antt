pub mod Planned
pub mod Plans
