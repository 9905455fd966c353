-- The meaning of texts of the program.
pub mod Text
