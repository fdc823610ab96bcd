pub mod Site
pub mod Requests
pub mod Deciding
pub mod World
pub mod Steps
pub mod Generator
pub mod Drilling
pub mod Laws
