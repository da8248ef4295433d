pub mod Together
pub mod Sorted
pub mod Lawful
