pub mod Clocks
pub mod Records
pub mod Frames
pub mod Ticks
pub mod Tables
pub mod Lines
pub mod Lent
