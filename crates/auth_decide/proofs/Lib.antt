pub mod Realms
pub mod Folds
pub mod Few
pub mod Within
pub mod Calls
pub mod Refusals
pub mod Verifying
