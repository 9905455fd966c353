pub mod Endings
pub mod Moving
pub mod Requests
pub mod Serving
pub mod Sessions
pub mod Tried
