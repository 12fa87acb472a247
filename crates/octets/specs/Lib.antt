pub mod Bytes
pub mod Equal
pub mod Order
pub mod Parts
pub mod Buffer
pub mod Table
