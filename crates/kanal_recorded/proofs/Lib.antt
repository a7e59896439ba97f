pub mod Common
pub mod Merging
pub mod Merged
