pub mod Layout
pub mod Fixed
pub mod General
pub mod Answers
pub mod Alias
pub mod ReadsOut
