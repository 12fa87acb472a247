pub mod Tree
pub mod Records
pub mod Verdict
