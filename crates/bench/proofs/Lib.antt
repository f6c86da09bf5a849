pub mod Table
pub mod Spreading
