pub mod Padding
pub mod Chain
pub mod Written
pub mod Hashes
