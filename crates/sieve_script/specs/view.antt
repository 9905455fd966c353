-- The values that the program's types stand for in contracts, and facts of one function alone. The
-- other files of specs/ restate the subject.
pub mod CutArgument
pub mod Expected
pub mod Reading
pub mod Script
pub mod Tags
