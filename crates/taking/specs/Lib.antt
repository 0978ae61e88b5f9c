pub mod paper
pub mod Taking
pub mod Judged
