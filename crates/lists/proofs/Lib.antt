pub mod Laws
pub mod Blank
pub mod Usages
pub mod Reading
pub mod Unique
pub mod Inside
pub mod Alias
