pub mod Ports
pub mod Answers
pub mod Delays
pub mod Assigning
pub mod Display
pub mod Meaning
