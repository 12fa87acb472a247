pub mod Sorted
pub mod Insert
pub mod Nearest
