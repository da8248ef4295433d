pub mod Example
