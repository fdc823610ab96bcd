pub mod Passes
pub mod Shards
pub mod Tables
pub mod Closing
