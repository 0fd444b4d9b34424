pub mod Batched
pub mod Arrays
pub mod Changes
