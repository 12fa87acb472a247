pub mod Order
pub mod Lists
pub mod Sorted
pub mod Insert
pub mod Remove
pub mod Offer
pub mod Near
pub mod Nearest
