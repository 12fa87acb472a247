pub mod Groups
pub mod Room
pub mod Chosen
pub mod Nodes
pub mod Content
pub mod Reply
pub mod Laws
