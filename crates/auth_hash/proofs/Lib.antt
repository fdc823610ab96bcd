pub mod Hashers
pub mod HexTexts
pub mod Places
pub mod Joins
pub mod Lengths
pub mod Iterations
