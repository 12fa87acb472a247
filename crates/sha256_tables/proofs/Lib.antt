pub mod Largest
pub mod Listed
