pub mod Common
pub mod Numbers
pub mod Lines
pub mod Texts
pub mod Words
pub mod EventWords
pub mod Readings
pub mod Faults
