pub mod Laws
pub mod Blank
pub mod Exactly
pub mod Unique
pub mod Reading
