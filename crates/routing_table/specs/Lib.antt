pub mod View
pub mod Places
pub mod Good
pub mod Rules
pub mod Survey
pub mod Find
