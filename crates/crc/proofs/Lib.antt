pub mod Division
pub mod Laws
pub mod Entries
pub mod Bench
