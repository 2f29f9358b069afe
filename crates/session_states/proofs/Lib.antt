pub mod NotIdle
pub mod WorkedRows
