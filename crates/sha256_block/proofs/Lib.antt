pub mod Schedules
pub mod Sums
pub mod Turns
