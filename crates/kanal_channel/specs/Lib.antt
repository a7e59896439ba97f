pub mod Answers
pub mod Locks
pub mod Starts
pub mod Deadlines
pub mod Batches
