pub mod Layout
pub mod Records
pub mod SyncManagers
pub mod Fmmus
pub mod Pdos
pub mod Answers
pub mod Inside
