mod Asked
pub mod Each
pub mod Flags
mod Names
pub mod Sets
