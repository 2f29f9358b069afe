pub mod Rest
pub mod Currents
pub mod WorkedRows
