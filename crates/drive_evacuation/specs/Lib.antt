pub mod Evacuation
