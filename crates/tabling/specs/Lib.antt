pub mod paper
pub mod Within
pub mod Gates
pub mod Fields
pub mod Judged
