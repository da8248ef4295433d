pub mod Needed
pub mod Alone
pub mod Solos
