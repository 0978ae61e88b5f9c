pub mod Demands
pub mod Equations
