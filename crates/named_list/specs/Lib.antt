pub mod Lends
pub mod Named
pub mod Slots
