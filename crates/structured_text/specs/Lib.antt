pub mod Structure
