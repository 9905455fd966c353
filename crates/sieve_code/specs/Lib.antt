pub mod Choice
pub mod Compiles
pub mod Operation
pub mod Pool
pub mod Walk
pub mod view
