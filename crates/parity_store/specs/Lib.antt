pub mod Ways
pub mod Targets
pub mod Drafts
