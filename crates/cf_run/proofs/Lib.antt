pub mod OneHost
pub mod Keeping
pub mod Taken
pub mod Deciding
pub mod Ending
pub mod Coming
mod Counted
pub mod Answering
pub mod Watching
pub mod Serials
pub mod Lengths
