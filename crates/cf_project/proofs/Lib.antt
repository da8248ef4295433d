pub mod Keeping
pub mod Schemas
pub mod Meant
pub mod Found
pub mod Named
pub mod Whole
pub mod LeftSetups
