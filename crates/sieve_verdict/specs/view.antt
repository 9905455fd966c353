-- How a text is compared with the lines of a verdict.
pub mod Comparing
pub mod Left
pub mod Wanted
