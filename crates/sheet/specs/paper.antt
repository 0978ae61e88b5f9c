pub mod Limits
pub mod Sheet
pub mod Encoding
pub mod Shape
pub mod Rules
