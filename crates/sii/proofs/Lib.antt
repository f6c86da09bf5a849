pub mod Laws
pub mod Lent
pub mod Unique
pub mod Same
pub mod Alias
pub mod ReadsOut
