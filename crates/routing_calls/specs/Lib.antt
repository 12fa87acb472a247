pub mod Change
pub mod Seen
pub mod SeenFor
pub mod Failed
pub mod FailedFor
pub mod Arrays
pub mod Helpers
