pub mod Finding
pub mod FlagLists
mod FlagRows
pub mod Keywords
pub mod Pieces
pub mod Turns
