pub mod Blocks
pub mod File
pub mod Position
pub mod Reading
pub mod Reader
pub mod Laws
pub mod Rules
pub mod Truncated
