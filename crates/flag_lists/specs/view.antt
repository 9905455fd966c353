-- How flags are hashed, and pieces of a text.
pub mod Hashing
pub mod Pieces
