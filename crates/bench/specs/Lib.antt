pub mod Agrees
pub mod Table
