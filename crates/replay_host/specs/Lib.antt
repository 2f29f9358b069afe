pub mod Host
pub mod Ticks
pub mod Lines
