pub mod Current
pub mod WorkedRows
