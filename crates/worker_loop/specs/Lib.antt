pub mod Service
pub mod Ends
pub mod Connections
pub mod Workers
pub mod Jobs
pub mod Seating
