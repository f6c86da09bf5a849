pub mod Laws
pub mod Given
pub mod Stored
pub mod Names
pub mod Unique
pub mod Bench
