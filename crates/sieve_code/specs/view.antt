-- The meaning of the program's types in contracts. Pool says where operations keep their strings.
-- The other files of specs/ restate the subject.
pub mod Branches
pub mod Code
pub mod Operation
pub mod Pools
