pub mod ChallengeTrip
pub mod Counts
pub mod CredentialsTrip
pub mod InfoTrip
pub mod Lookups
pub mod Rows
