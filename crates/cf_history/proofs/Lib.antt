pub mod Spelled
pub mod Logs
pub mod OneWriter
pub mod Orders
pub mod Placed
