pub mod Views
pub mod Steps
pub mod Stretches
pub mod Runs
pub mod Demand3
pub mod Equal
