pub mod Times
pub mod Unread
pub mod Entries
pub mod WorkedRows
