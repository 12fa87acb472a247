pub mod Text
pub mod Load
pub mod Calls
pub mod Parts
pub mod Shape
pub mod Before
