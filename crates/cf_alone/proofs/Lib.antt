pub mod Pigeons
pub mod Nodes
pub mod Alone
pub mod Lacking
