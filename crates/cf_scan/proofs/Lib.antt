pub mod Amounts
pub mod Chunks
pub mod Joining
