pub mod Expansion
