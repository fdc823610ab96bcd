pub mod Statuses
pub mod Conversations
pub mod Dials
