pub mod Box
pub mod Setting
pub mod Step
pub mod Plainly
pub mod Newest
pub mod Answered
pub mod Examples
