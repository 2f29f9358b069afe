pub mod Tables
pub mod Sent
pub mod Summaries
pub mod Figures
pub mod Groups
pub mod InnerBounds
