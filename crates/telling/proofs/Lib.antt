pub mod Digits
pub mod Told
pub mod One
