pub mod Cases
pub mod Written
pub mod Headers
pub mod Contents
