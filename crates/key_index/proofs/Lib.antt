pub mod Each
pub mod Chunks
pub mod Rules
pub mod Places
pub mod Scan
pub mod Answers
