pub mod Bench
pub mod Content
pub mod Dump
pub mod Edits
pub mod Report
pub mod Stale
pub mod Test
pub mod view
