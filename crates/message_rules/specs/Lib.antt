pub mod Good
pub mod Things
