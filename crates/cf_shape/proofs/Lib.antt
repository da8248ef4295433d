pub mod Counts
pub mod Measured
pub mod Used
pub mod Slots
pub mod Bounds
pub mod KeyLevels
