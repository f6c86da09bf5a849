pub mod Range
pub mod Answers
pub mod Closed
