pub mod Session
pub mod Message
pub mod Frames
pub mod Tick
