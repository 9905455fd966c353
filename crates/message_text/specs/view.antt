-- The meanings of the program's types in contracts. The other files of specs/ restate the subject.
pub mod Divisions
pub mod Heads
pub mod NameHash
pub mod Positions
pub mod Spans
