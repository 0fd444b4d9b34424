pub mod Geometry
pub mod Headers
pub mod Lists
pub mod Newest
pub mod Records
pub mod Scripts
pub mod Status
pub mod Units
