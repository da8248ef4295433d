pub mod Asking
pub mod Laws
pub mod Looking
pub mod Selecting
pub mod Stretches
pub mod Tags
pub mod Walking
pub use Rattle.cf_walk.specs.Walks
