pub mod Names
pub mod Replies
pub mod Events
pub mod Outside
pub mod Serving
pub mod Carrying
pub mod Laws
pub mod Admissions
