pub mod Devices
pub mod Writers
pub mod view
