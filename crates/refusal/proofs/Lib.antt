pub mod Outcomes
pub mod Says
pub mod Buffers
pub mod Due
