pub mod Tasks
pub mod Futures
pub mod Plain
pub mod Streams
pub mod Prefers
