pub mod Literal
pub mod Folds
pub mod Runs
pub mod Small
