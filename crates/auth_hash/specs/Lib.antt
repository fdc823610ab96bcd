pub mod Algorithm
pub mod Digits
pub mod Hash
pub mod Hasher
pub mod HexText
pub mod Mac
pub mod Qop
pub mod Salting
