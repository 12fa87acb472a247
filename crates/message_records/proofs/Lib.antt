pub mod Offsets
pub mod Layouts
pub mod Filled
pub mod Answers
