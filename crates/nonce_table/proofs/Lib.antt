pub mod Places
pub mod Taking
pub mod Growing
pub mod Joining
pub mod Making
pub mod Totalling
pub mod Histories
