pub mod Common
pub mod Ending
pub mod Answering
pub mod Backs
pub mod Draining
pub mod Starting
pub mod Batching
