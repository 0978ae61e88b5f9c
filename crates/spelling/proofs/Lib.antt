pub mod Bytes
pub mod Keywords
pub mod Words
pub mod One
