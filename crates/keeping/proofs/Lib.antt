pub mod Listed
pub mod Kept
pub mod Longest
pub mod Mappers
pub mod Shaped
pub mod One
pub mod Tables
pub mod Printed
