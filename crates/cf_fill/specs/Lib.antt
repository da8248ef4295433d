pub mod Work
pub mod Needs
pub mod Seals
pub mod Logs
pub mod Filling
pub mod Taking
pub use Rattle.cf_load.specs.Planned
pub use Rattle.cf_segments.specs.Blocks
