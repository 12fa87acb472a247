pub mod Laws
pub mod Terms
pub mod Steps
pub mod Newest
pub mod Plainly
pub mod Demand3
pub mod Answered
pub mod Examples
