pub mod Comparator
pub mod Order
pub mod Relation
pub mod Room
pub mod Wildcard
pub mod view
