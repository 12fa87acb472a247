pub mod Nodes
pub mod Branches
pub mod Answers
