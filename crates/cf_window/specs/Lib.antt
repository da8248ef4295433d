pub mod Windows
pub mod Rounds
pub mod Watched
pub mod Segments
pub mod Held
pub mod Laws
pub mod Courses
