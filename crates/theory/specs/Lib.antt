pub mod paper
pub mod Members
pub mod Lines
