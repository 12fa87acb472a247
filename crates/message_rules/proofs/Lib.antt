pub mod Places
pub mod Present
pub mod Flags
pub mod Lengths
pub mod Good
pub mod Pairs
pub mod Judged
