pub mod Calls
pub mod Counts
