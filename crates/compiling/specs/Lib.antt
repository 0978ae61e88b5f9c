pub mod paper
pub mod Stages
