pub mod paper
pub mod Cones
pub mod Covers
