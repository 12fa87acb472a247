pub mod Id
pub mod Key
