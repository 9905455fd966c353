pub mod Cut
pub mod Scan
pub mod Sequence
pub mod Value
pub mod view
