pub mod Blocks
pub use Rattle.cf_alone.specs.Needed
pub mod Loaded
pub mod Segments
pub mod Readers
