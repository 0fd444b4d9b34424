pub mod Written
pub mod Rebuilt
pub mod Scrubbed
pub mod ScrubbedVault
