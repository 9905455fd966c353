-- The models of the program's types in contracts. The other files of `specs` define the subject.
pub mod Labelled
pub mod Names
pub mod Part
pub mod Parts
pub mod Value
pub mod Variable
