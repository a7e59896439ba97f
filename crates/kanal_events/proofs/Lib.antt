pub mod Common
mod Giving
mod Draining
mod Leaving
pub mod StepCases
