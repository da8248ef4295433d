pub mod Fitting
pub mod Within
pub mod Spelled
pub mod Address
pub mod Flowing
pub mod Fitting6
pub mod Agreeing
