pub mod Frame
pub mod Tick
