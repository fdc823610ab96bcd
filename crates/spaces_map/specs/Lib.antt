pub mod Follows
pub mod Kinds
pub mod LineFaults
pub mod Lines
pub mod Outcomes
pub mod Spaces
pub mod Texts
