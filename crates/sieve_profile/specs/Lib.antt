pub mod Every
pub mod Extension
pub mod Profile
pub mod view
