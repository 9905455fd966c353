pub mod Joined
pub mod view
