mod Flags
mod Names
mod Naming
pub mod Telling
