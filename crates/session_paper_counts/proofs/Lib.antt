pub mod Fold
pub mod Turns
pub mod Outcomes
pub mod InStep
pub mod Runs
pub mod Smaller
pub mod Bounds
pub mod Again
