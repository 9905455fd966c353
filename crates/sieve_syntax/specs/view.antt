-- The models of the program's types in contracts. The other files of `specs` define the subject.
pub mod Cursor
pub mod Parsed
pub mod Reader
pub mod Script
pub mod Tree
