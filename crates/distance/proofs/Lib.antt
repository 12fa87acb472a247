pub mod Exclusive
pub mod BitLength
pub mod LogDistances
pub mod Requests
pub mod Tested
