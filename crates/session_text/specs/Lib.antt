pub mod LineOf
pub mod SessionLine
pub mod view
