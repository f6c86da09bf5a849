pub mod Cut
pub mod Divide
pub mod Greedy
pub mod Measure
