pub mod Lines
pub mod Verdict
pub mod view
