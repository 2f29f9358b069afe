pub mod Waiting
pub mod Asking
pub mod Answering
