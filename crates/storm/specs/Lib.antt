pub mod Ended
pub mod Ending
pub mod Telling
pub mod Numbers
pub mod Rounds
