pub mod Pdu
pub mod Read
pub mod Grammar
pub mod Answers
