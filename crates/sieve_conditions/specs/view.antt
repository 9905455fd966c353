-- What the program's types stand for in contracts. The other files of specs/ restate the subject.
pub mod FieldCache
pub mod FieldTests
pub mod FlagTests
