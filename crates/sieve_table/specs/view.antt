-- The models of the program's types in contracts, and facts of one function alone. The other files
-- of `specs` define the subject.
pub mod Required
pub mod Row
