pub mod Chained
pub mod Writers
pub mod Asked
