pub mod Keeping
pub mod Suited
pub mod Told
pub mod Moving
pub mod Making
pub mod Onward
