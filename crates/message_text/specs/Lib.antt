pub mod Addresses
pub mod Blanks
pub mod Fields
pub mod view
