pub mod Offer
pub mod Message
