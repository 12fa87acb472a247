pub mod Lists
pub mod Containers
pub mod Answers
pub mod Shapes
pub mod Found
