pub mod Limits
pub mod Counts
pub mod Phases
pub mod States
