pub mod InTheWay
pub mod Known
pub mod NameFronts
mod Named
