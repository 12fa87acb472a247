pub mod View
pub mod Good
pub mod Search
pub mod Calls
pub mod Keys
pub mod Rules
