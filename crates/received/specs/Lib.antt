pub mod Matching
pub mod Answers
pub mod Receives
