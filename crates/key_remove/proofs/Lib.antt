pub mod Moved
pub mod Without
pub mod Cases
