pub mod Frame
pub mod Answers
pub mod Bounds
pub mod Built
pub mod Pushes
