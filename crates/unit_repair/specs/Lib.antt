pub mod Computed
pub mod Mended
