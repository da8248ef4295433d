pub mod Lines
pub mod Schemas
