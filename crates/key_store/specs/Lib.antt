pub mod Store
pub mod Answer
pub mod Move
pub mod Judge
pub mod Cases
