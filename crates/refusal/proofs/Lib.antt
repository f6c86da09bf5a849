pub mod Tests
pub mod On
pub mod Unique
