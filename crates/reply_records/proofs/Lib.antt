pub mod Fronts
pub mod Ranks
pub mod Orders
pub mod Slotted
pub mod Kept
