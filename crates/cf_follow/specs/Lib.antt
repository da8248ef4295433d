pub mod LeftStreams
pub mod LeftLaws
pub mod Followed
pub mod Heard
pub mod Completed
pub mod Laws
pub use Rattle.cf_rounds.specs.Held
