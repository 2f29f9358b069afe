pub mod Walks
pub mod Values
pub mod Pairs
pub mod Held
pub mod Conversions
pub mod Spelled
pub mod Hexes
