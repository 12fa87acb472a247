pub mod Values
pub mod Encode
pub mod Records
pub mod Rules
pub mod Decode
pub mod Report
pub mod Reading
