-- The meaning of the program's types in contracts. The other files of specs/ restate the subject.
pub mod Compiled
pub mod Entry
pub mod Found
pub mod Include
pub mod Step
