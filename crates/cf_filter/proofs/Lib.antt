mod Conjunctions
pub mod ExprLaws
pub mod Lawful
mod Numbers
pub mod Parts
mod Places
mod RangeLaws
pub mod Runs
pub mod ValueLaws
