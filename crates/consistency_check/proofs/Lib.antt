pub mod Adding
pub mod Testing
pub mod Below
