pub mod Closed
pub mod Views
pub mod Told
pub mod Sightings
pub mod Misses
