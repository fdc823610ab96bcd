pub mod Findings
pub mod Outside
pub mod Serving
pub mod Deciding
pub mod Laws
pub mod Lines
