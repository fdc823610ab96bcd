pub mod Conduct
pub mod Admissions
