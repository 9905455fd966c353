pub mod Lines
pub mod Needed
pub mod Plain
pub mod Quoting
pub mod Ranges
pub mod Reading
pub mod Spaces
pub mod Taking
pub mod Unused
mod WordRows
pub mod Words
pub mod LineWords
