pub mod Laws
pub mod WorkedRows
