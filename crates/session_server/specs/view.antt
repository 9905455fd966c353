-- The models of the program's types in contracts. The other files of specs/ restate the subject.
pub mod Progress
pub mod Task
