pub mod Trees
pub mod Chunks
pub mod Epochs
pub mod Canonical
