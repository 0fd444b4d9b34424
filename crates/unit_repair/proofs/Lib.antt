pub mod Whole
pub mod Verified
pub mod Touched
pub mod Mending
