pub mod Four
pub mod Outcomes
pub mod WorkedRows
pub mod Lists
pub mod Life
