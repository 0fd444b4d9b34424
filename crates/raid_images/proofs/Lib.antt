pub mod Firsts
pub mod Saving
