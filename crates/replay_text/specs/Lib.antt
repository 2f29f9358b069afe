pub mod Chars
pub mod Words
pub mod Digits
pub mod Numbers
pub mod Hex
pub mod Lines
