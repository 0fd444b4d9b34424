pub mod Ages
pub mod Inside
pub mod Slots
pub mod Picking
pub mod Counts
pub mod First
