pub mod Out
pub mod Quoted
pub mod Text
pub mod Answers
pub mod Frames
pub mod Standings
