pub mod Asks
pub mod Commands
pub mod Dump
pub mod Strings
pub mod view
