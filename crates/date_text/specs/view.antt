-- The meaning of the program's types in contracts. The other files of specs/ restate the subject.
pub mod LocalTime
pub mod Moment
pub mod Words
