pub mod Options
pub mod AsSeat
pub mod Called
