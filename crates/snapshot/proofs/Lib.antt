pub mod Frames
pub mod KeyLines
pub mod RoundTrip
pub mod Forms
pub mod Reading
pub mod Writing
pub mod Turns
