mod AtPeace
mod Bounds
mod Depth
mod Distinct
pub mod Entries
mod RunRows
pub mod Unchanged
pub mod Frame
pub mod Includes
pub mod Performing
pub mod LookedUp
pub mod Stepping
