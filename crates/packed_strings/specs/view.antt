-- The meaning of the program's types in contracts. Joined says how lists of strings are kept.
pub mod FieldNames
pub mod Refs
