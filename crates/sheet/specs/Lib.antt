pub mod paper
pub mod Writing
pub mod Longest
pub mod Shape
pub mod Arrays
