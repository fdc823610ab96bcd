pub mod ResponseHashes
pub mod Responses
pub mod Secrets
