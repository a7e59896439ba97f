pub mod Script
pub mod Words
pub mod Answer
pub mod Program
pub mod Faults
