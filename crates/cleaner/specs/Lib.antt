pub mod Counts
pub mod Choosing
pub mod Plans
pub mod Offered
