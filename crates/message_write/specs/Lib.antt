pub mod Kinds
pub mod Lent
pub mod Write
pub mod Parts
pub mod RoundTrips
