pub mod Words
pub mod InnerLaid
