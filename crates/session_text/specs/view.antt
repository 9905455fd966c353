-- The models of the program's types in contracts. The other files of specs/ restate the subject.
pub mod Command
pub mod Filled
pub mod Input
pub mod Line
pub mod Payload
pub mod Word
