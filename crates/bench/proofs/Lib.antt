pub mod Dumping
mod EditRows
pub mod Entries
pub mod Jobs
pub mod Judged
pub mod Kept
pub mod Lines
pub mod Marks
pub mod Names
pub mod Others
pub mod Rebuilt
pub mod Refreshing
pub mod Stales
pub mod Texts
pub mod Trying
pub mod Within
pub mod Writing
