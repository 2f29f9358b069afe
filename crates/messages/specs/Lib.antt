pub mod Table
pub mod Received
pub mod Identifier
