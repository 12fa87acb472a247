pub mod Remove
pub mod Seek
pub mod Answer
