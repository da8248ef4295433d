pub mod Reading
pub mod Values
pub mod Nexts
pub mod Outcomes
pub mod OneOutcome
pub mod SomeOutcome
pub mod First
