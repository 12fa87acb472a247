pub mod Groups
pub mod Once
pub mod Sizes
pub mod Chosen
pub mod Content
pub mod Nodes
pub mod Replies
