pub mod Cells
pub mod Quads
pub mod Sort
pub mod Triggers
