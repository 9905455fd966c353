pub mod Charset
pub mod view
