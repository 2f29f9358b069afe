pub mod Beat
pub mod Layouts
pub mod Sendings
