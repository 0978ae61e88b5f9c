pub mod paper
pub mod Machine
pub mod Stored
