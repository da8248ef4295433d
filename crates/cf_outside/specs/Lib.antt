pub mod Causes
pub mod Files
pub mod Script
pub mod Shown
pub mod Gate
pub mod Tries
