-- The values that the program's types stand for in contracts, and facts of one function alone. The
-- other files of specs/ restate the subject.
pub mod Checked
pub mod Context
pub mod Finds
pub mod Head
pub mod Judged
pub mod Scope
pub mod Use
