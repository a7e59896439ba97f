pub mod Answers
pub mod Equality
pub mod Texts
