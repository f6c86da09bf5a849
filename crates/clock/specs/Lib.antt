pub mod Layout
pub mod Clocks
pub mod Answers
