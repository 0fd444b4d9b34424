pub mod Same
pub mod Writing
pub mod Reading
pub mod Loading
pub mod Once
pub mod Computing
