mod Adding
mod Growing
pub mod Reading
