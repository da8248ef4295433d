pub mod Lanes
pub mod Lines
pub mod Streams
pub mod Held
pub mod Laws
