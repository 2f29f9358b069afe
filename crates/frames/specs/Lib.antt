pub mod Frame
pub mod InnerSent
