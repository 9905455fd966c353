pub mod Session
pub mod Status
pub mod view
