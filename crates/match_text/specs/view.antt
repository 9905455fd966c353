-- The meanings of the program's types in contracts, and facts of one function alone. The other
-- files of specs/ restate the subject.
pub mod Digits
pub mod Room
pub mod Search
pub mod Segment
