pub mod Lanes
pub mod Nodes
pub mod Uses
pub mod Places
pub mod Faults
pub mod Laws
