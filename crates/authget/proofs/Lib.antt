pub mod Accounts
pub mod Rounds
pub mod Exchanging
pub mod Making
pub mod Replying
pub mod Places
pub mod Targets
pub mod Whole
