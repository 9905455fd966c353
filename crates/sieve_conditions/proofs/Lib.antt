pub mod Copying
pub mod Holding
pub mod Keyed
mod NamedPlaces
mod OnlyKeys
mod Counted
mod FieldsInTurn
mod Paths
pub mod Searching
