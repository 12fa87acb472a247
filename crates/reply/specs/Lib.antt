pub mod Answer
pub mod Lending
pub mod Listing
pub mod Ready
