pub mod Mapper
pub mod Inspector
pub mod Longest
pub mod Equations
