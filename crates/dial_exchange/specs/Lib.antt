pub mod Exchanges
pub mod Dials
pub mod Talking
pub mod Laws
