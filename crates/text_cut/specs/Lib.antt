pub mod Cut
pub mod Scan
