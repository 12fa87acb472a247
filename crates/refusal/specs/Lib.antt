pub mod Says
pub mod Outcome
pub mod Buffer
