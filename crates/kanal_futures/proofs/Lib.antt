pub mod Answering
pub mod Preferring
