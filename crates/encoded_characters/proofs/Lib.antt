pub mod Items
pub mod Found
pub mod Values
pub mod Steps
