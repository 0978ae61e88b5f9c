pub mod Argument
pub mod Tells
