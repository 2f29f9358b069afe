pub mod Laws
pub mod RoundTrip
