pub mod Address
pub mod Capability
pub mod Known
pub mod Required
pub mod Role
pub mod Rule
pub mod Table
pub mod view
