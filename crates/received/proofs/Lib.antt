pub mod Laws
pub mod Blank
pub mod Back
pub mod Ours
pub mod Receiving
