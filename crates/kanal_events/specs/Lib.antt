pub mod Steps
pub mod Given
pub mod StepResult
pub mod Leaving
