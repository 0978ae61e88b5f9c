pub mod Reading
pub mod Promise
pub mod Lines
pub mod Equations
pub mod Scanning
