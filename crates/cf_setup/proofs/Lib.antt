mod AddsLaws
mod FormLaws
mod Lawful
mod LineReads
mod RuleLaws
pub mod SetupReads
pub mod Shapes
mod Taken
mod Whole
