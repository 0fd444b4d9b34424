pub mod Number
pub mod Parts
pub mod Words
pub mod Order
pub mod Spelling
pub mod Reading
