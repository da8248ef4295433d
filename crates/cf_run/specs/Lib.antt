pub mod Hosts
pub mod Lengths
pub mod Refusals
pub mod Watched
pub mod Due
pub mod Ending
pub mod Answers
pub mod Parts
