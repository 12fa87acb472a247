pub mod Order
pub mod Records
