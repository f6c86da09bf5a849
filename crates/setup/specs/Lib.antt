pub mod Layout
pub mod Setup
pub mod Answers
pub mod Alias
