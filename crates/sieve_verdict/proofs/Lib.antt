mod AgreeRows
pub mod Compared
pub mod Left
mod Pieces
