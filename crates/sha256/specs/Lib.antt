pub mod Hash
pub mod Ends
