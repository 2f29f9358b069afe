pub mod Outcomes
pub mod Ticking
pub mod Carrying
