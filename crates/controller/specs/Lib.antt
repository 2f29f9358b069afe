pub mod With
pub mod Start
pub mod Frame
pub mod Tick
