pub mod Snapshots
pub mod Laws
pub mod Hosts
pub mod Plans
pub mod Courses
