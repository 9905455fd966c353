pub mod Known
pub mod Tabled
pub mod Utf8
