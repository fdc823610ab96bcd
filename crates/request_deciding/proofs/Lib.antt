pub mod Decisions
pub mod Machines
