pub mod Shown
mod Restated
pub mod Rebuilding
pub mod Underway
mod Verified
mod Replacing
mod Settling
mod Mended
mod Scrubbing
mod ScrubbingVault
