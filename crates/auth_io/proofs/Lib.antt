pub mod Scripted
pub mod Later
pub mod Passing
pub mod Entries
pub mod Handing
