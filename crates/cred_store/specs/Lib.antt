pub mod Kinds
pub mod Values
pub mod LookUps
pub mod Keys
pub mod Texts
pub mod Faults
pub mod Changes
pub mod Htdigest
