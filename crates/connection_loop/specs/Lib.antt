pub mod Machine
pub mod Session
pub mod Account
pub mod Results
pub mod Steps
pub mod Prefixes
