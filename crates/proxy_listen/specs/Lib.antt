pub mod Service
pub mod Workers
