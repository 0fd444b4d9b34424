pub mod Benches
pub mod Carried
pub mod Hexes
pub mod Newest
pub mod Once
pub mod Regrouped
pub mod Said
pub mod Scanned
