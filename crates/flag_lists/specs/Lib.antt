pub mod Flags
pub mod view
