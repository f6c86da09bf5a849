pub mod Layout
pub mod Numbers
pub mod Category
pub mod First
pub mod Inside
pub mod Answers
