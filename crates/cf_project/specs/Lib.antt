pub mod Keeping
pub mod Named
pub mod Projected
pub mod Laws
pub mod Setups
