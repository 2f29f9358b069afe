pub mod Fine
pub mod Listed
pub mod Numbers
