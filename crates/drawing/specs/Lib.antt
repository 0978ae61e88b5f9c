pub mod paper
pub mod Rules
pub mod Bytes
pub mod Forms
pub mod Refusals
pub mod Reading
pub mod Filling
pub mod Lines
