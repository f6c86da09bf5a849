pub mod Laws
pub mod Divide
pub mod Greedy
pub mod Better
pub mod Vectors
