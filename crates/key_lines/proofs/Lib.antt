pub mod Lengths
pub mod Parts
pub mod States
pub mod Answers
pub mod Turns
pub mod Whole
