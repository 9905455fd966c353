pub mod Bodies
pub mod Dates
pub mod Matching
pub mod view
