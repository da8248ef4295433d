pub mod Lists
pub mod Truths
pub mod Sums
pub mod Ranges
pub mod Fitting
pub mod Counts
pub mod Bytes
pub mod Spelling
pub mod Readable
pub mod Written
pub mod Kept
pub mod Lawful
pub mod Keeping
mod Fronts
