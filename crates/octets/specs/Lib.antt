pub mod Hex
pub mod Octet
pub mod view
