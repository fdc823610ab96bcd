pub mod Keys
pub mod Exchange
