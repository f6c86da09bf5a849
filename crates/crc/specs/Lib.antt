pub mod Crc
pub mod Steps
