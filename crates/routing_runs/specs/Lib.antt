pub mod Step
pub mod Story
pub mod Leaving
pub mod Refusing
pub mod Remembers
pub mod Answered
