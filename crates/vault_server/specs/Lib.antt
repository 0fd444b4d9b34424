pub mod Served
pub mod Missing
