pub mod Laws
pub mod Spelled
pub mod SentLines
pub mod StandingNumbers
pub mod WorkedRows
