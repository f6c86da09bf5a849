pub mod Answers
pub mod Walk
pub mod Reads
