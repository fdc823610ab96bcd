pub mod Chaining
pub mod Steps
pub mod Worst
pub mod Places
