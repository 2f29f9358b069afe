pub mod EstBytes
