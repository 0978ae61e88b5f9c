pub mod paper
pub mod Puts
pub mod Arrays
pub mod Luts
