pub mod Passes
pub mod Comparing
pub mod Merges
