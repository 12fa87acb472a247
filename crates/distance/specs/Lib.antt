pub mod Distance
pub mod Before
