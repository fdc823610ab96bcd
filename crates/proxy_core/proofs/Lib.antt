pub mod Lines
pub mod Carried
pub mod Kept
pub mod Admitted
