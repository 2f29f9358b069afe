pub mod SentTemperatures
pub mod Every
pub mod Extremes
pub mod Walks
pub mod Bounds
pub mod WorkedRows
