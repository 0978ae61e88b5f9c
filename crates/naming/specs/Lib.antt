pub mod Stored
pub mod Lines
pub mod Wrongs
