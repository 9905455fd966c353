pub mod Cut
pub mod Encoding
pub mod Meaning
pub mod Reading
pub mod Scan
pub mod Word
pub mod view
