pub mod paper
pub mod Holding
