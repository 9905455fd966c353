pub mod CommandLine
pub mod Profiles
