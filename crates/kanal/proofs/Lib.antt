pub mod Calling
pub mod Receiving
pub mod Loops
pub mod Sending
pub mod Queues
