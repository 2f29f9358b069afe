pub mod Range
pub mod Record
pub mod Read
pub mod Write
pub mod Tidy
