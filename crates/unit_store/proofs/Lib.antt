pub mod Reading
mod Fitting
pub mod Wiping
pub mod Making
mod Adding
mod Setting
pub mod Shows
pub mod Views
pub mod Calls
pub mod Entering
pub mod Offsets
pub mod UnitFor
pub mod Outcomes
pub mod Shifting
pub mod GoneSlots
pub mod Shifts
pub mod Taking
pub mod Finished
pub mod Listed
pub mod Stopped
