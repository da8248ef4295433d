pub mod History
pub mod Order
pub mod Tails
pub mod Laws
