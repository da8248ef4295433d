pub mod Whole
pub mod Drawing
pub mod Logs
pub mod Sealing
pub mod Filled
pub mod Taken
pub mod Both
pub mod Front
