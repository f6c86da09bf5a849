pub mod Laws
pub mod Ends
pub mod First
pub mod Inside
pub mod Same
pub mod Unique
pub mod Bench
