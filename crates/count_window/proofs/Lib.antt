mod Bits
pub mod Windows
mod Sets
