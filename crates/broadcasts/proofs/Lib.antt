pub mod InStep
pub mod Laws
pub mod TwosComplement
pub mod WorkedRows
