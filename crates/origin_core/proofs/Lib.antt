pub mod Plans
pub mod Never
pub mod Admitted
