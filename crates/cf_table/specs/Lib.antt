pub mod Values
pub mod Effects
pub mod Rule
pub mod Moves
pub mod Loads
pub use Rattle.cf_law.specs.Passes
