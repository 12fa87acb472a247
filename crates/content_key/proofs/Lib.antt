pub mod Reversal
pub mod Listing
pub mod Keys
pub mod Ids
