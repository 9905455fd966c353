-- The meaning of the program's types in contracts. The other files of specs/ restate the subject.
pub mod ContentTypes
pub mod Cuts
pub mod Entities
pub mod Marks
pub mod Wanted
