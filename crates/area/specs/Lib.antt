pub mod Area
pub mod Passes
