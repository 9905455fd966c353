mod Named
pub mod Adding
pub mod Saying
