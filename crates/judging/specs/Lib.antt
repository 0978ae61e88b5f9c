pub mod Paths
pub mod Gates
