pub mod Keys
pub mod Shares
pub mod Carried
pub mod Views
pub mod Plays
pub mod Gathering
