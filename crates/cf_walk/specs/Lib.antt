pub mod Walks
pub mod Reached
pub mod Measures
