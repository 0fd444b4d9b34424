pub mod Fronts
pub mod UnitsIn
pub mod Placed
pub mod Setting
pub mod Stamps
pub mod Headers
pub mod Zeros
pub mod Failures
