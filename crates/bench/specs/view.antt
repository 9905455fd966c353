-- The models of the program's types in contracts. The other files of specs/ restate the subject.
pub mod Entry
pub mod Lines
pub mod ReportFault
pub mod Refused
pub mod Scripts
pub mod Site
pub mod Tested
