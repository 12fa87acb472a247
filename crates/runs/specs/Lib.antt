pub mod Setting
pub mod Views
pub mod Done
pub mod Runs
pub mod Demand3
