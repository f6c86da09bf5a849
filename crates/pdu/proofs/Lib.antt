pub mod Laws
pub mod Rows
pub mod Reading
pub mod Grammar
pub mod Unique
pub mod Bench
