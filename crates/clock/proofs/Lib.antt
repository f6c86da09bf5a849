pub mod Reading
pub mod Blank
pub mod Unique
pub mod Theorems
